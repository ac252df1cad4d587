-- Laws of picture.
pub mod Checks
