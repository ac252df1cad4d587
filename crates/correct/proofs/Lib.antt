-- Laws that the proofs of the functions cite: a job that is found, a corrected piece, a code that is told, a table that was loaded, the sizes of buffers, a part's name, and how
-- work with files ends; and what a number too great asks for.
pub mod Agreeing
pub mod Corrected
pub mod Telling
pub mod Loading
pub mod Sizes
pub mod PartNames
pub mod Endings
pub mod Wanted
