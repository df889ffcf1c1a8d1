mod PassLaws
pub mod OneAnswer
pub mod RuledOut
mod Parts
