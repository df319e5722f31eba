-- What the proofs of several functions use.
pub mod Decimal
pub mod Volumes
pub mod Example
