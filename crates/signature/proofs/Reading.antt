-- Theorems of reading.

-- what a word says that is no number within its limit; exponents of any length
pub mod Faults
pub mod Nines
-- reading by its parts, and two readings beside each other
pub mod Parts
pub mod Beside
-- what document 02 changed of reading, and what it left
pub mod Moved
pub mod BarePoints
pub mod Told
pub mod Heads
pub mod HalfDomains
pub mod MixedDomains
-- where numbers stand, and the lines by their numbers
pub mod Places
pub mod LineNumbers
-- the order of the checks
pub mod Checks
pub mod Order
-- the room that a table needs; the numbers that reading answers, and what its promise decides
pub mod Room
pub mod Numbers
pub mod Promised
-- the file judged with no table
pub mod Checking
-- wrong readers and checkers that the promises rule out
pub mod WrongPrograms
pub mod WrongChecks
