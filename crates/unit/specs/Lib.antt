pub mod Of
pub mod Steps
pub mod Units
