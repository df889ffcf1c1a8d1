pub mod Calls
pub mod Demand1
pub mod HostNumbers
pub mod Demand2
pub mod HostFrames
pub mod RealTimes
pub mod MovedSum
pub mod Tails
