pub mod Figures
pub mod Page
pub mod Calls
pub mod Trace
pub mod Given
