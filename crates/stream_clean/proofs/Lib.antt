mod Across
mod Stores
pub mod Readings
pub mod OneAnswer
pub mod Promised
pub mod RuledOut
