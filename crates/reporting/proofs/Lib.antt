-- Laws that the proofs of the functions cite: of lines by their parts, and of the text as a whole.
pub mod Lines
pub mod Answered
