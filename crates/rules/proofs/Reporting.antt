-- Laws of the report's text.
pub mod Lengths
