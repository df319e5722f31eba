-- Laws of whole numbers with a sign, for the proofs of this crate and of those above it.
pub mod Linear
pub mod Ring
pub mod Order
pub mod Size
pub mod Sizes
pub mod Fit
pub mod Sum
pub mod Floor
pub mod Cut
pub mod FloorSum
pub mod Nearest
pub mod Digit
