pub mod Steps
pub mod Encoding
pub mod Putting
pub mod Worth
pub mod Worked
pub mod Meanings
