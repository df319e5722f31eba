-- The lines of a period file: numbers, fields, the six kinds of line, and the call of each.
pub mod Numbers
pub mod Fields
pub mod Lines
