-- The kinds of bytes, by the rules, and where a run of one kind ends.
pub mod Kinds
pub mod RunEnds
