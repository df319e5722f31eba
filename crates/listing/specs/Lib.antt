-- A list of calls in one call, and a half hour in one call.
pub mod Listed
pub mod Kind
pub mod Settle
pub mod Helpers
