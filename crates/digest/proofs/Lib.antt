-- Laws that the proofs of the functions cite, here and in the crates above: rotations; a schedule filled word by word; the digits of a number; the end of
-- a padded message; a hash block by block; words as text.
pub mod Rotations
pub mod Schedules
pub mod Digits
pub mod Paddings
pub mod Hashes
pub mod Texts
-- What makes the definition believable: laws, and the published vectors.
pub mod Laws
pub mod Vectors
