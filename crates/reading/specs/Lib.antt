pub mod Seen
pub mod SeenLaws
