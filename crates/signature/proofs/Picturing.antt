-- Theorems of picture.

-- its pixels are those of look
pub mod Codes
-- the numbers that it answers, and what its promise decides
pub mod Numbers
pub mod Promised
-- what the two depths decide
pub mod Depths
-- with one depth it is document 01's
pub mod OneDepth
-- with one domain it is what it was
pub mod OneDomain
-- wrong programs that it rules out
pub mod WrongPrograms
