pub mod TwoCapturesArriving
pub mod TwoCapturesHold
pub mod Pages
pub mod Converse
pub mod Witness
