-- Laws of energy and cells, for this crate's functions and for the crates above.
-- lists
pub mod Each
pub mod Permuted
pub mod Entries
pub mod Counting
-- from meters to cells
pub mod Statuses
pub mod Uses
pub mod SumOver
pub mod SumBelow
pub mod Stored
pub mod Counted
pub mod TwoClasses
pub mod AnyOrder
pub mod Charges
-- how large they can be
pub mod RowBounds
pub mod Totals
pub mod CellBounds
-- as the code works them
pub mod Turns
pub mod AnyLacks
