pub mod Faults
pub mod Packets
pub mod Reading
pub mod Words
