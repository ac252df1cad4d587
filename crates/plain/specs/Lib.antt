-- What the code has found where it found digits, a number, a row or rows in the plain shape, in the rules' own terms.
pub mod Shapes
