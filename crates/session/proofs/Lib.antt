pub mod Arrived
pub mod OneAnswer
pub mod AsTheTable
pub mod RuledOut
pub mod Taken
