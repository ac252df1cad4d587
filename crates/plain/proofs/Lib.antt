-- Laws of digits, numbers and rows in the plain shape.
pub mod Spelling
pub mod Pieces
pub mod Values
pub mod Found
pub mod Runs
