pub mod Numbers
pub mod Arguments
pub mod Faults
pub mod Scripts
pub mod Hashes
