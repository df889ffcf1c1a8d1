pub mod Demand1
pub mod FrameEvents
pub mod Session
