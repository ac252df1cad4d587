-- What rewriting leaves in the lent bytes.
pub mod Anew
