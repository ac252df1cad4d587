-- What a picture needs, when its header is known, what a corrected piece is, how the work ends, the name of a part, and what looks like an option.
pub mod Jobs
pub mod Headers
pub mod Sizes
pub mod Pieces
pub mod Outcomes
pub mod Parts
pub mod Calls
