pub mod Demand1
pub mod HostNumbers
pub mod Demand3
pub mod SameMap
pub mod GivenUp
pub mod Between
