-- A number as it is written, and that a line is answered as it was.
pub mod AsWritten
mod FirstByte
