pub mod Refused
pub mod Extends
pub mod Holds
pub mod Judges
pub mod Recomposes
