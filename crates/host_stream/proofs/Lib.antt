pub mod Settled
pub mod Promised
pub mod OneAnswer
pub mod RuledOut
