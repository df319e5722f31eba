-- Laws of the three words, for this crate's functions and for the crates above.
pub mod Tests
pub mod BitField
pub mod Ranges
pub mod RegistrationWord
pub mod Charges
pub mod ReadingWord
