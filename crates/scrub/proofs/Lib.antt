pub mod Parts
mod Lays
pub mod OneAnswer
pub mod RuledOut
pub mod Painted
