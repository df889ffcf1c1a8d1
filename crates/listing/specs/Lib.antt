pub mod LastLine
pub mod Listed
pub mod Example
