-- Laws that the proofs of several functions cite.
pub mod Spans
pub mod Together
pub mod Alike
