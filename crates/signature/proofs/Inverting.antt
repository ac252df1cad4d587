-- Theorems of the inverse.

-- the numbers that it answers, when each is given, and the counts of its refusals
pub mod Numbers
-- a greater tolerance
pub mod Tolerance
-- a look at what it answers
pub mod Looked
-- what it knows of a description and a table
pub mod SameLines
-- wrong programs that its promise rules out
pub mod WrongPrograms
