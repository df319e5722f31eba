-- Laws of the correction, for this crate's functions and for the crates above.
pub mod Filled
-- from cells to sums
pub mod Pairs
pub mod UnitCells
pub mod RunningSums
pub mod PairSums
pub mod Droppings
pub mod Sizes
pub mod SliceBounds
pub mod ChainSums
-- the last watt-hours
pub mod CountWhere
pub mod Ranked
pub mod Keys
pub mod HandedOut
pub mod Served
pub mod RoundedVolumes
pub mod Apportioned
pub mod ShareSize
pub mod Apportion
pub mod VolumesOf
-- the correction as one call
pub mod Outcome
