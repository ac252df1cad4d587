-- Laws behind the proofs of the functions.
pub mod Trying
