-- What the reader keeps from line to line, what the checks before the first row tell of it, what a line that passes gives it; the samples of a line;
-- plain rows as lines; the loops of the two passes.
pub mod Fits
pub mod Sized
pub mod Welcomed
pub mod LineSamples
pub mod PlainRows
pub mod FirstPass
pub mod SecondPass
