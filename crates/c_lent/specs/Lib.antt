pub mod Numbers
pub mod Records
pub mod Calls
pub mod Serving
pub mod Batch
