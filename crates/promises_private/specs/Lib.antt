pub mod TwoCaptures
pub mod TwoCapturesArriving
pub mod Witness
