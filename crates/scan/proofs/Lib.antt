-- Laws of tests and of runs.
pub mod Tests
pub mod Runs
