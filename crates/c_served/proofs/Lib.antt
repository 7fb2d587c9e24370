-- Back: what is read back from the numbers of an answer or a record is that answer, that record.
-- Told: the word that a step tells is the one that it stored.
-- Served: so each call for C leaves what `serve` says.
-- Turns: a row in numbers is the row of the records read back. Serves: so the serving call leaves what the row of calls leaves.
pub mod Back
pub mod Told
pub mod Served
pub mod Turns
pub mod Serves
