pub mod Back
pub mod Given
pub mod Cuttings
pub mod Washings
