pub mod State
pub mod Old
pub mod Papers
pub mod Trace
pub mod SameMap
