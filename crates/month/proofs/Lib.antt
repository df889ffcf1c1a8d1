pub mod Loops
pub mod Fill
pub mod RowLaws
pub mod PassLaws
pub mod StartLaws
pub mod AddLaws
pub mod OneAnswer
pub mod RuledOut
