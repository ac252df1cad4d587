-- What a text put into lent bytes does to them, and to a pen that puts it; the last digits of a number.
pub mod Putting
pub mod Pens
pub mod Digits
