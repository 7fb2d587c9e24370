pub mod Reading
pub mod Faults
pub mod Breaks
pub mod Inspecting
pub mod Parts
pub mod Told
