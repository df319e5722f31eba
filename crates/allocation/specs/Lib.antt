-- The allocate call: as document 01 works it, from the rows, and from the slice of running cells.
pub mod Losses
pub mod Allocate
pub mod Running
pub mod Helpers
