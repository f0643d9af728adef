pub mod Filled
pub mod Adopted
pub mod Fills
pub mod Histories
pub mod Paths
pub mod Written
