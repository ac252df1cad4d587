-- What the theorems speak of beside the rules: reading by its parts, and what the requests of document 02 changed of it; the wall chart; look and picture with
-- one depth, and with one domain; look undivided, and its halves joined; codes beyond a domain; document 01's cases; a number that is one of some; the order of reading's
-- checks; the fewest characters for a number.
pub mod Before
pub mod BarePoints
pub mod Heads
pub mod HalfDomains
pub mod MixedDomains
pub mod WallChart
pub mod OneDepth
pub mod OneDomain
pub mod Undivided
pub mod Joined
pub mod Beyond
pub mod Cases
pub mod Numbers
pub mod Order
pub mod Fewest
