-- The laws of the rules: what the proofs of code cite. No code is in them. The theorems that no code needs are in the crate signature.

-- tests and their parts; the three colours; a known depth's M; the test of 24 is the property `Sound`
pub mod Tests
pub mod Colours
pub mod KnownDepths
pub mod Sound
-- lent memory with some places replaced; numbers as text
pub mod Memory
pub mod Decimals
-- a word, a line and the lines in their order; acceptance is the grammar; the first refused line decides; what is accepted is not 24
pub mod Reading
-- either reading of a position, the rule's own, weights and rows, and that an accepted look is right
pub mod Looking
-- a picture by its checks and its pixels
pub mod Picturing
-- a written file: its lines and their lengths; the inverse by its tries and its checks, and that an accepted one is right
pub mod Writing
pub mod Inverting
-- answers put together again from the paper's numbers and values
pub mod Answers
-- what crosses the C boundary fits the numbers that it crosses in
pub mod Boundary
-- how long the report's text is
pub mod Reporting
