-- Among: elements of lists put together. Entries: the legal words of the kind. Kept: what opening accepts of a list. Claim: what is claimed of the
-- legal small logs. Only: that no other list has that. Image: the image that is built, and opening's reply. Slice: what is left in the slice.
pub mod Among
pub mod Entries
pub mod Kept
pub mod Claim
pub mod Only
pub mod Image
pub mod Slice
