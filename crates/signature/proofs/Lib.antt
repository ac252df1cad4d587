-- What the signature covers: theorems about the rules that no code needs. docs/PROMISES.md has them by the demands' clauses.

-- demand 1: each promise decides its answer; titles change no answer
pub mod Unique
pub mod Untitled
-- laws of tests that several of them use; what stands in a lent table past its rows
pub mod Either
pub mod LaterPlaces
-- the demands, of reading, look, picture, writing and the inverse, and the wrong programs that their promises rule out
pub mod Reading
pub mod Looking
pub mod Picturing
pub mod Writing
pub mod Inverting
pub mod Demand3
-- the demands again, of the calls that loggers link
pub mod Boundary
-- numbers as text; the bytes that the report program prints
pub mod Decimals
pub mod Reporting
-- document 01's cases
pub mod Cases
