pub mod Asked
pub mod Decided
pub mod Table
