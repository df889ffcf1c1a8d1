pub mod Table
pub mod Kept
pub mod Lent
pub mod Broken
pub mod Numbers
pub mod Stays
pub mod Seats
