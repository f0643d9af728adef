pub mod Rates
pub mod Values
pub mod Valid
pub mod Rules
pub mod Factory
pub mod Image
pub mod Stored
pub mod View
