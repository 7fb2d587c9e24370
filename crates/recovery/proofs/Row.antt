-- A row: each of several points has a turn.
pub mod Rank
pub mod Sight
pub mod Step
pub mod Listed
pub mod OneTurn
pub mod Round
pub mod Begun
pub mod Heard
pub mod Together
pub mod Served
