-- A row's line, sought line by line, and that it is the row's; the rows of a colour; between which codes a colour's code lies, of a look and of a line; how a
-- question ends.
pub mod Seeking
pub mod RowsOwnLine
pub mod Spanning
pub mod Between
pub mod GivenLine
mod Ends
