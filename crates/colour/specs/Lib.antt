-- What only the code needs: nothing here has to be believed.
pub mod Limits
pub mod Ratios
pub mod Plans
pub mod Places
pub mod Adding
pub mod Lines
