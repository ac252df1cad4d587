-- A number as it is written.
pub mod Written
