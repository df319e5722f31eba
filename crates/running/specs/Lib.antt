-- The slice of running cells that is lent beside the rows.
pub mod Words
pub mod Running
pub mod Ready
pub mod Lent
pub mod Helpers
