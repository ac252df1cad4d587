-- Laws of lines, words and first bytes, and the cursor's invariant.
pub mod LinesFrom
pub mod Newlines
pub mod Standing
pub mod WordsFrom
pub mod FirstBytes
pub mod SameBytes
