pub mod Calls
pub mod Kept
pub mod OneAnswer
pub mod Promised
pub mod RuledOut
