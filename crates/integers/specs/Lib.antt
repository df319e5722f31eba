-- What document 01 does with whole numbers that have a sign: sums, quotients rounded down, and thousandths rounded to the nearest Wh.
pub mod Sum
pub mod Quotient
pub mod Rounding
pub mod Helpers
