pub mod WordLaws
pub mod Kept
pub mod OneAnswer
pub mod RuledOut
