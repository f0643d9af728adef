pub mod Exactly
pub mod Precisions
pub mod Channels
pub mod Table
pub mod Identifiers
pub mod Readings
