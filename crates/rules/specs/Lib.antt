-- Documents 000, 01 and 02 as definitions. A reader who believes these files, and whole's, knows what is promised.

-- units, depths, rows and places; lent memory; numbers and lines as text; the description, the rules on its domains, and 24
pub mod Units
pub mod Memory
pub mod Decimals
pub mod Fields
pub mod Descriptions
-- what the calls answer, as types
pub mod Results
-- reading: bytes, lines and words; a file that keeps the specification, as a property; reading, as a function, in the order of the checks
pub mod Reading
-- interpolation; look, by its two halves; picture
pub mod Looking
pub mod Picturing
-- a table as the bytes of a file; the raw code of a wanted corrected one
pub mod Writing
pub mod Inverting
-- the paper's number and values of each answer, and what the calls promise
pub mod Answers
pub mod Promises
pub mod Reporting
pub mod Boundary
-- demands 2 and 3: where an accepted file's numbers stand, and what is asked of an accepted look and picture, of rows and weights that anybody wrote, and of an inverse
pub mod Demands
