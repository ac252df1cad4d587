-- Theorems of the report's text.
pub mod Reported
