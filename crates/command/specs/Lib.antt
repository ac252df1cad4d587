-- What the command is asked for, and what it answers.
pub mod Verbs
pub mod Statuses
