pub mod Numbers
pub mod Front
pub mod Frames
pub mod Parts
pub mod Writing
