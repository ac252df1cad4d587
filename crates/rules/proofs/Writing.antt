-- Laws of writing: how long the lines and the text are.
pub mod Lengths
