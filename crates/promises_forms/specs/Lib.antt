pub mod Demand1
pub mod OneSum
pub mod Step
pub mod Market
