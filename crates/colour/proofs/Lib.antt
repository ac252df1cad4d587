-- Laws that the proofs of several functions cite.
pub mod Orders
pub mod Ratios
pub mod Placing
pub mod Plans
pub mod Totals
pub mod Weighing
pub mod RowCodes
pub mod Lining
