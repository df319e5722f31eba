-- Laws of the calls, for this crate's functions and for the crates above.
pub mod KeptStoring
pub mod Storing
pub mod InOrder
pub mod Answers
pub mod SettingKept
pub mod Tested
pub mod RegisterCall
pub mod ReadingCall
pub mod CallFormed
-- lists of calls, and cells that keep up through them
pub mod ListOfCalls
pub mod KeptUp
