-- The three words of a row: the MPAN, the registration and the reading.
pub mod Limits
pub mod Mpan
pub mod Registration
pub mod Reading
