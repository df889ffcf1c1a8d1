pub mod Walks
pub mod Rules
pub mod Cuttings
pub mod Given
pub mod OneAnswer
pub mod Promised
pub mod RuledOut
