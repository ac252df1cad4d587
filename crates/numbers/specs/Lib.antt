-- How a word's value is found: where its parts stand, and how their digits are cut.
pub mod Parts
pub mod Cuts
