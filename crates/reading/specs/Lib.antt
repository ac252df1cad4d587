-- The reader's own state and verdicts, tied to the rules', the cursor past a run of rows, and what its second pass leaves in the table.
pub mod Within
pub mod View
pub mod Verdicts
pub mod Runs
pub mod Tables
