-- What an argument says, what loading a table leaves, and how work ends.
pub mod Arguments
pub mod Loads
pub mod Outcomes
