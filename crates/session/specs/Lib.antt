pub mod Papers
pub mod Arrivals
pub mod Taken
