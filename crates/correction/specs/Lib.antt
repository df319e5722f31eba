-- From the cells of the units to their volumes: n and a, U and W, exact shares, and the last watt-hours.
pub mod Slice
pub mod Correction
pub mod Volumes
pub mod Outcome
pub mod Helpers
