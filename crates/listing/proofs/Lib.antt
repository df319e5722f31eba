-- A list of calls in one call: the calls of a slice, and that making them so is making them one by one.
pub mod CallOf
pub mod ListMade
pub mod InParts
-- a half hour in one call
pub mod HalfHour
