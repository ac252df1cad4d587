-- The laws of exact values.

-- Euclid's divisor, and what is in lowest terms
pub mod CommonDivisors
-- integers over natural numbers; S / E in lowest terms, and that in one way only
pub mod Fractions
-- division rounded down
pub mod Flooring
-- the value as a code
pub mod CodeValues
-- how its code was settled
pub mod Settling
-- how far a code is from it
pub mod Distances
-- its decimals
pub mod Dividing
