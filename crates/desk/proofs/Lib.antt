-- A number kept at one past its limit; a table of a file's first bytes; how work ends.
pub mod Ends
pub mod Kept
pub mod WhatIsLoaded
