-- Laws of the inverse.

-- the search, code by code, and what it comes to
pub mod Tries
pub mod Searched
-- the answer by its checks, and that an accepted one is right
pub mod Checks
pub mod Right
