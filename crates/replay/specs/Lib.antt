pub mod Both
pub mod Calls
pub mod Feeding
pub mod Replayed
