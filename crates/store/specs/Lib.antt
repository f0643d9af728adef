pub mod Meaning
pub mod Refused
pub mod Slots
pub mod Trial
