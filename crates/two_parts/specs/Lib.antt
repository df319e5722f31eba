-- Rows in two rising parts, and what functions on them promise.
pub mod TwoParts
pub mod Merge
pub mod Apart
pub mod ByParts
