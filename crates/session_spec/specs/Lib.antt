pub mod Faults
pub mod Table
pub mod Calls
pub mod Trace
pub mod Words
pub mod Statements
pub mod Given
