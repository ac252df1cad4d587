-- Theorems of writing.

-- lists of digits that spell the same number
pub mod Digits
-- numbers take the fewest characters, and no other word is so short
pub mod Fewest
-- what the texts of numbers never are
pub mod Never
-- words with one space between them; the words that are written
pub mod Spaced
pub mod Words
-- what is written keeps the specification
pub mod Kept
-- what any accepted file gave can be written
pub mod Writable
-- the numbers that it answers, and what its promise decides
pub mod Numbers
pub mod Promised
-- what plays no part in it
pub mod NoPart
-- reading what was written, and writing it again
pub mod RoundTrip
-- wrong programs that its promise rules out
pub mod WrongPrograms
