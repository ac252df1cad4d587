-- What must be believed of an exact value S / E: what it is, how its code was settled, and its decimals.
pub mod Values
pub mod Decimals
