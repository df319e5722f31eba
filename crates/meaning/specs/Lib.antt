-- What a list of calls means, demand 3 over it, the worked cases, that an allocation ignores networks and tariffs, and that the running cells keep up.
pub mod Meaning
pub mod Moves
pub mod Kept
pub mod Demand
pub mod Cases
pub mod Charges
