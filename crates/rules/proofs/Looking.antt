-- Laws of look.

-- a sum of weighed samples in layers; either reading; the rule's own reading, and its own order by the wall chart; weights and rows
pub mod Layers
pub mod EitherReading
pub mod Rule
-- the span of a colour, and what is brought to the D that it makes
pub mod Spans
pub mod Brought
pub mod Chart
pub mod RowsAndWeights
-- rows and weights judged
pub mod Judging
-- the answer by its checks, as those of its halves, and that an accepted one is right
pub mod Halves
pub mod Checks
pub mod Demand3
