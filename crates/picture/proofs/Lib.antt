-- Laws that the proofs of the functions cite: of the greatest code, of an output that is filled, of blocks, of passes, and of kept codes.
pub mod Maxima
pub mod Filled
mod Blocking
mod Passing
mod ThreePasses
mod Keeping
