pub mod Questions
pub mod Ranges
pub mod Ramps
pub mod Records
