pub mod Back
pub mod OneAnswer
pub mod Rows
pub mod RuledOut
