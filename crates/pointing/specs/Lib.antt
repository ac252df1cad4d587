-- What a refusal points at, and how many rows there are and should be.
pub mod Pointing
pub mod Counts
