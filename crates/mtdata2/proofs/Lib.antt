pub mod Runs
pub mod Frames
pub mod Cuts
pub mod Messages
pub mod Firsts
