-- What an accepted answer tells, and the end that an answer has by its number.
mod Checked
