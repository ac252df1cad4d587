-- Laws that the proofs of the functions cite: a title's bytes; the texts of the lines and what is tried before they are written, how long they are, rows put one after another, and the checks in their order.
pub mod Titles
pub mod LineTexts
pub mod Lengths
pub mod RowsPut
pub mod Checks
