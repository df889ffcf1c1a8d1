pub mod Words
pub mod Called
