-- What a list of calls means: document 01's cases, and that making the calls gives it. From the laws of lists up to the two theorems, `Meant` and `Moved`, and demand 3; that an allocation ignores networks and tariffs; and that the running cells keep up.
pub mod Cases
-- lists
pub mod Lists
pub mod Different
-- what one more call at the end of a list changes in its meaning
pub mod Newest
pub mod Counted
pub mod MeantSettings
pub mod MeantMeters
-- the same in the book
pub mod Stored
pub mod Means
pub mod SettingStep
pub mod RegisterStep
pub mod ReadingStep
-- whole lists
pub mod Meant
pub mod Moved
pub mod Moves
pub mod Kept
pub mod Settles
-- books and lists that differ only in networks and tariffs
pub mod Charges
