pub mod Kept
pub mod OneAnswer
pub mod Promised
pub mod Means
pub mod RuledOut
