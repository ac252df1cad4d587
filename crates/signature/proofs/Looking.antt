-- Theorems of look.

-- what it knows of a description and a pixel; what its second half knows of a description and six rows and weights; the ends of the domain, and codes beyond them;
-- the short division
pub mod SamePlaces
pub mod SameShares
pub mod DomainEnds
pub mod ShortDivision
-- with one depth it is document 01's
pub mod OneDepth
-- with one domain it is what it was; domains that differ
pub mod OneDomain
pub mod CommonFractions
-- the order of the axes: the wall chart
pub mod WallChart
-- the numbers that it answers; what the two depths decide
pub mod Numbers
pub mod Depths
-- it is what it was before it was parted
pub mod Undivided
-- its two halves: joined they are look; the numbers that they answer; what the first finds is right, and so is what the second makes of all that it accepts; what
-- plays no part in them
pub mod Joined
pub mod HalvesNumbers
pub mod FirstRight
pub mod SomeCarried
pub mod SecondRight
pub mod HalvesNoPart
-- wrong programs that its promise and those of its halves rule out
pub mod WrongPrograms
pub mod WrongHalves
