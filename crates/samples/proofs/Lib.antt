pub mod Readings
pub mod Outputs
pub mod Weights
pub mod Bounds
pub mod Adds
pub mod Walks
