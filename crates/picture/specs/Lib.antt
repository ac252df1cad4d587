-- What only the code needs: nothing here has to be believed.
pub mod Filling
pub mod Blocks
pub mod Passes
pub mod Keeping
