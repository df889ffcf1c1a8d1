pub mod Demand1
pub mod HostNumbers
pub mod Channels
pub mod Month
