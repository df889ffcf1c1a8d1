pub mod Kept
pub mod OneAnswer
pub mod Rows
pub mod RuledOut
