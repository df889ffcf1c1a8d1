pub mod Papers
pub mod Passes
pub mod PassedLaws
pub mod Answers
pub mod Promises
