pub mod Dispatch
pub mod Turns
