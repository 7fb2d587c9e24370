-- Laws of inspecting an image.
-- Reading: Arrays: an array filled from its front or its end. ReadOn, Legal, Overruled, Uses, Longest: the loops that read chain, entries, marks, uses and
-- the longest stretch. ChainRead: the log blocks read are the first of the chain. Entries: the entries read. Places: where word j of the slots stands.
-- Faults: Known: what opening's number tells. Searches, Firsts: the searches step by step, and what they find. Named: which fault the definitions name, by
-- the code's tests. Links, Early: the places named for 1 to 5 break their rules; Clash, LastCovering, Late, LateBlock, LateShared, LateEnd: 6 to 9.
-- Given: from the arrays of what was read to the lists of the definitions.
pub mod Arrays
pub mod ReadOn
pub mod Legal
pub mod Overruled
pub mod Uses
pub mod Longest
pub mod Known
pub mod ChainRead
pub mod Places
pub mod Entries
pub mod Searches
pub mod Firsts
pub mod Named
pub mod Links
pub mod Early
pub mod Clash
pub mod LastCovering
pub mod Late
pub mod LateBlock
pub mod LateEnd
pub mod LateShared
pub mod Given
pub mod Whole
