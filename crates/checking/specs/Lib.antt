-- How the check of a file ends.
pub mod Verdicts
