pub mod Broken
pub mod Meaning
