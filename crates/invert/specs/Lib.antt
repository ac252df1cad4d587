-- What is said of a question, and how it ends.
pub mod Saying
