pub mod Papers
pub mod Passes
pub mod Answers
