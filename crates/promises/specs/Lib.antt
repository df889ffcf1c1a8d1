pub mod Demand1
pub mod HostNumbers
pub mod Marked
pub mod NamedWrong
pub mod Parts
pub mod Pieces
pub mod CheckedByPieces
