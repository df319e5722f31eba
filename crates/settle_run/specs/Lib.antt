-- What the program makes of its input, byte by byte, and how the functions speak of it.
pub mod Program
pub mod Helpers
pub mod Streams
pub mod Example
pub mod RowsAlone
