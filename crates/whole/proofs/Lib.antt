-- The laws of whole numbers.

-- integers, so that omega reaches them; the bits of an i64 and the integer that they are
pub mod Halves
pub mod Held
-- the code is the nearest one, and the only one; the code of a weighed sum lies between those of its values
pub mod NearestLaws
pub mod Between
-- Euclid's steps; the upper half of a product; division by a reciprocal
pub mod Divisors
pub mod Products
pub mod Reciprocals
