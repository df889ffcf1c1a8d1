pub mod Standing
pub mod StoreLaws
pub mod Pushed
