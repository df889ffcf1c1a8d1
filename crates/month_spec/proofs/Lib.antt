pub mod Lists
pub mod Steps
pub mod Counted
pub mod OneChannel
pub mod Rules
pub mod Given
pub mod Order
pub mod Starts
