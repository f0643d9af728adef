pub mod Carried
pub mod Rows
pub mod Said
