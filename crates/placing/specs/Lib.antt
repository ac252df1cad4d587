-- What is shown of one colour of a pixel: its side, its place and its sum; and where a row stands in the cube.
pub mod Sides
pub mod Shown
pub mod Grids
