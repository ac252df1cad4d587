-- The laws that the functions' proofs stand on.

-- three numbers, by the places of their words
pub mod ThreeWords
-- N, kept at one past its greatest
pub mod Sizes
-- an item made of a value found
pub mod Mapped
