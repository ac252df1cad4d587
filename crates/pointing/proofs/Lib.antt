-- A line, sought by its number; the first wrong word; the parts that are pointed at lie within their line.
mod Ahead
mod Counting
mod Failing
pub mod Inside
-- What a refusal points at lies on its line.
pub mod OnItsLine
-- What each refusal is about, and that this is what it points at: by the words of a line and their places, the first wrong one of them, and what the judge refuses.
pub mod Meant
mod WordPlaces
mod Falls
mod Wrongs
pub mod ToThePoint
