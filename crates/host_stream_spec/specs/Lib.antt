pub mod Lent
pub mod Calls
pub mod Rows
pub mod Rules
pub mod Washes
