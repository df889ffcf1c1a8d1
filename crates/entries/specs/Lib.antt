pub mod Papers
pub mod Reader
pub mod Given
pub mod Outcomes
pub mod Places
pub mod Exactly
pub mod Walks
pub mod Laid
