-- What a binary PPM picture is: its header, as read and as written, what maxval says of the codes, pixels as bytes and as
-- codes, and a code that is too great; and what other bytes are.
pub mod Kinds
pub mod Header
pub mod Written
pub mod Scales
pub mod Raster
pub mod Excess
