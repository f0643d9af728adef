pub mod Settling
pub mod Until
pub mod Waiting
pub mod Reading
