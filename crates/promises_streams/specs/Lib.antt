pub mod Demand1
pub mod HostNumbers
pub mod Cuttings
pub mod Arriving
pub mod HostHeard
