pub mod Captures
pub mod Listed
pub mod Means
