-- Laws of how a refusal is chosen.
pub mod Passed
pub mod Numbers
