-- Which way a code was moved; the place of a code by the plan of its depth; that an accepted look and shares that are judged fit may be added up; and
-- that a row stands at one place of the cube alone.
pub mod Sides
pub mod Places
pub mod Sums
pub mod Grids
