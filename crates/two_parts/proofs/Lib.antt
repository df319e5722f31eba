-- Laws of rows in two rising parts.
pub mod WithRow
pub mod Merged
pub mod AsOne
-- the parts merged in place
pub mod MergedBack
pub mod RowPut
pub mod Merging
-- sums over them, and in what order they stand
pub mod PartsSum
-- storing in them
pub mod KnownAfter
pub mod LentPart
pub mod ByParts
pub mod KeptByParts
pub mod StoredApart
pub mod LaterStored
pub mod Stored
pub mod Recorded
pub mod Registered
