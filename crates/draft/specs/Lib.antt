pub mod Refusals
pub mod Composed
pub mod Refused
pub mod Round
