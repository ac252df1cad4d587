-- Laws that the proofs of several functions cite.
pub mod Parting
pub mod Cubing
pub mod Running
pub mod Positions
pub mod Scaled
pub mod Values
pub mod Halving
pub mod Sorting
pub mod Walked
pub mod Stored
pub mod Placing
