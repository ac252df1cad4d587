-- What is asked, the line of a row, and the codes between which a colour's rows hold its code.
pub mod Questions
pub mod RowLines
pub mod Spans
