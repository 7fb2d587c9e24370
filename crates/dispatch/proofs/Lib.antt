pub mod Lent
pub mod Twice
pub mod Rows
pub mod Beginnings
pub mod Rounds
pub mod Reasons
