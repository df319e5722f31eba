-- Laws of the totals call, for this crate's functions and for the crates above.
-- the words
pub mod SumWhere
pub mod TotalAt
pub mod OneMore
pub mod AddedRows
-- the totals call
pub mod Ways
-- what the totals of a book add up to
pub mod AddUp
