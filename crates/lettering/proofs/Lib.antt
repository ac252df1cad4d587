-- Laws that the proofs of the functions cite, here and in the crates above: texts put one after another, the last digits of a number, the sign, and the longest text.
pub mod Texts
pub mod Pens
pub mod LastDigits
pub mod Signed
pub mod Longest
