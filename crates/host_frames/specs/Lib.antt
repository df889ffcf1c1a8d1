pub mod Frames
pub mod Private
pub mod Means
