pub mod Lengths
pub mod Fed
pub mod Continuing
pub mod Running
pub mod Plays
pub mod Tapes
