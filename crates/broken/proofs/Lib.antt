pub mod Entries
pub mod OneAnswer
pub mod RuledOut
pub mod First
