pub mod Settles
pub mod Untils
pub mod Keeps
pub mod Holds
pub mod Readings
pub mod Nexts
