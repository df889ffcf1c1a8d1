pub mod OneAnswer
pub mod RuledOut
pub mod Times
pub mod Years
