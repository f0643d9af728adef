pub mod Scripts
pub mod Playing
