-- Laws that the proofs of the functions cite: the gap before a number, codes and bytes by their places, what is put in front of a list,
-- what maxval says, a header's limits; and that a header has no part in the bytes that follow it.
pub mod Gaps
pub mod Codes
pub mod Putting
pub mod FirstAbove
pub mod Scaling
pub mod Sizes
pub mod Prefixes
pub mod Plainest
