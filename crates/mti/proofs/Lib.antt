pub mod Exact
pub mod Digits
pub mod Rows
pub mod Named
