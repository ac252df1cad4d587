-- What must be believed of whole numbers: an integer's two halves, a weighed sum, the nearest code. The greatest common divisor and reciprocals
-- are for the code alone.
pub mod Integers
pub mod Nearest
pub mod Divisors
pub mod Reciprocals
