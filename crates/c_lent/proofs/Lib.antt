-- Laws of the calls in numbers. Heads, Shared: a record and its numbers. Calls: the ways out of each call. Known: what a call leaves
-- are a record's numbers. The serving call: Places, InTurn: loops in which each has its turn; Turns: a point's turn, beginnings, rounds; ServeReasons: 26
-- and 27; Serves: the whole call. For its batches: ReadyAt, BeginReady: points known to fit; Plain, PlainRounds, WordsLeft, ByRows, RoundsMore: plain rounds.
pub mod Heads
pub mod Shared
pub mod Calls
pub mod Known
pub mod Places
pub mod InTurn
pub mod Turns
pub mod ReadyAt
pub mod BeginReady
pub mod Lean
pub mod Lone
pub mod RoundsMore
pub mod Plain
pub mod PlainRounds
pub mod WordsLeft
pub mod ByRows
pub mod ServeReasons
pub mod Serves
