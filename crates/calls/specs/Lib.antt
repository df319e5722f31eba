-- The six calls that write the book, alone and with its running cells, and a list of them made one by one.
pub mod Calls
pub mod Running
pub mod Stores
pub mod Helpers
pub mod InOrder
