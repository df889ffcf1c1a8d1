pub mod OneAnswer
pub mod RuledOut
