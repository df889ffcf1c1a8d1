pub mod OneAnswer
pub mod Promised
pub mod RanAnswers
pub mod SameMap
pub mod Seam
pub mod RuledOut
