-- Places in text: what a cursor finds, where words stand.
pub mod LinesFrom
pub mod WordsFrom
