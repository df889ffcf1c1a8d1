pub mod Arrives
pub mod Given
