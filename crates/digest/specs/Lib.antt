-- The checksum of bytes, as FIPS 180-4 defines it, and as text. A reader who believes these two files knows what is promised.
pub mod Sha256
pub mod Hexadecimal
-- What only the code needs: nothing here has to be believed.
pub mod Parts
