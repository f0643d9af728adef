pub mod Changed
pub mod After
pub mod Answered
pub mod Told
