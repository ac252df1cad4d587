-- The laws of the facts of a colour.

-- how great the numbers of a line and of its facts are
pub mod Bounds
-- the facts are one only, and tell the code that is given
pub mod Telling
