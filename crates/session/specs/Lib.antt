pub mod Scan
pub mod Digest
pub mod Made
