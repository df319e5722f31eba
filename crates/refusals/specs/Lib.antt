-- The numbers of refusals, and how one is chosen.
pub mod Causes
pub mod Refusal
