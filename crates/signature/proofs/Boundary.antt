-- Theorems of the C boundary.

-- what crosses it, and the numbers that the C calls answer
pub mod Crossing
pub mod Numbers
-- the demands, of each call itself, and of one after another
pub mod Reads
pub mod Looks
pub mod Halves
pub mod Pictures
pub mod Writes
pub mod Inverts
pub mod Together
pub mod Checks
-- what plays no part in writing, in the halves of a look, and in the inverse
pub mod NoPart
pub mod HalvesNoPart
pub mod InvertsNoPart
-- what the two depths decide
pub mod Depths
-- with one depth they are document 01's
pub mod OneDepth
-- with one domain they are what they were
pub mod OneDomain
-- wrong calls that the promises rule out
pub mod WrongReads
pub mod WrongChecks
pub mod WrongLooks
pub mod WrongHalves
pub mod WrongPictures
pub mod WrongWrites
pub mod WrongInverts
