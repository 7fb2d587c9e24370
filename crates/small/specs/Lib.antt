pub mod SmallLogs
pub mod Tried
pub mod Parts
pub mod Computing
