pub mod PassLaws
pub mod OneAnswer
pub mod Promised
pub mod RuledOut
