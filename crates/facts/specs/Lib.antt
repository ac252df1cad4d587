-- What must be believed of the facts of a colour.
pub mod Told
