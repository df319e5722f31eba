-- What the program prints.
pub mod Numbers
pub mod Lines
pub mod Example
pub mod Helpers
