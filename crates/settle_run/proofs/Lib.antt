-- Laws of the program's definitions, each cited by the functions that gather and print.
pub mod Bytes
pub mod Attempts
pub mod RowsAlone
pub mod Example
pub mod Streams
