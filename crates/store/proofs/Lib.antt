pub mod Meanings
pub mod Refused
pub mod Cut
pub mod Runs
pub mod Writes
pub mod Calls
pub mod Last
pub mod Held
