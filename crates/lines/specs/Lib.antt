pub mod Cuts
pub mod Lines
pub mod Words
pub mod Bytes
pub mod Faults
pub mod Prints
pub mod Decimals
