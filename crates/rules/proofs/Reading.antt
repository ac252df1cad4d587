-- Laws of reading.

-- a word as a number
pub mod Runs
pub mod Numbers
-- a line, by its words
pub mod Wordings
pub mod Threes
pub mod Sorts
pub mod OneLine
-- the lines in their order
pub mod Order
pub mod Walk
-- acceptance is the grammar; the first refused line decides; where a title stands; what is accepted is not 24
pub mod Acceptance
pub mod Refusals
pub mod Titles
pub mod Bridge
