pub mod Cutting
pub mod LineParts
pub mod WordParts
pub mod Pairs
pub mod Reading
pub mod Printing
pub mod Numbers
