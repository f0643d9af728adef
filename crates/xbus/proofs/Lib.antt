pub mod Bytes
pub mod Totals
pub mod Widths
pub mod Fronts
pub mod Headers
pub mod Cases
pub mod Splits
pub mod Writes
