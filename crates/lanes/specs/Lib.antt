-- What only the code needs: nothing here has to be believed.
pub mod Lanes
pub mod Parts
pub mod Paths
pub mod Cubes
pub mod Spots
