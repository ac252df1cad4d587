-- Laws of the C boundary.

-- calls of eleven numbers
pub mod Described
-- what crosses fits its numbers
pub mod Fits
