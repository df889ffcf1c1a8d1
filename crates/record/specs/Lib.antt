pub mod Record
pub mod Stored
pub mod RecordLaws
pub mod Fields
pub mod Back
pub mod Examples
