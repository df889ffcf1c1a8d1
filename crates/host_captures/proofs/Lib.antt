pub mod Kept
pub mod OneAnswer
pub mod Listed
pub mod Means
pub mod RuledOut
