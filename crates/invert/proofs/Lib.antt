-- What is said by its cases, and that what is said is so.
pub mod Saying
pub mod AsSaid
