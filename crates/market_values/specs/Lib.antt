pub mod Steps
pub mod Giving
pub mod Writing
