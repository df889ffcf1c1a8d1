pub mod Naming
pub mod State
pub mod Rows
pub mod Examples
