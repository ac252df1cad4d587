-- The laws that the functions' proofs stand on.

-- a word's first byte, sign and first run of a kind, by places and lengths
pub mod Words
-- digits and the number that they spell, kept at a limit or not
pub mod Digits
pub mod Kept
-- the grammar by places
pub mod Grammar
-- two lists cut as one
pub mod Joined
-- the exact value by a cut of the digits
pub mod Exact
