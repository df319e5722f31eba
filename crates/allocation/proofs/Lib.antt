-- Laws of the allocate call, for this crate's functions and for the crates above.
pub mod Alike
pub mod AnyOrder
-- how large the Take can be
pub mod Bounds
-- what rounding drops from the losses
pub mod Losses
-- where no cause applies
pub mod Settled
-- the allocation as it was, worked from the rows
pub mod Outcome
pub mod Charges
-- the allocation of a slice of running cells
pub mod Waiting
pub mod SliceSteps
pub mod SliceWays
pub mod RunningWays
pub mod SliceSettled
-- and that of one that is a sum over the rows
pub mod FromRows
pub mod WaitingRows
pub mod SameAllocation
