pub mod Table
pub mod Fields
pub mod Sizes
pub mod Outcomes
pub mod Widths
pub mod Rules
pub mod Meaning
pub mod Bodies
