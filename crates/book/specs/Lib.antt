-- The state of a book, in document 01's order: settings, rows, the well-formed book, and what is stored in it.
pub mod Limits
pub mod Settings
pub mod Rows
pub mod Book
pub mod Store
pub mod Helpers
