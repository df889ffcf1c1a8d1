pub mod Digits
pub mod Widths
pub mod Laws
pub mod Texts
