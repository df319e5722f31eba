-- The totals call: network charges by tariff.
pub mod Totals
pub mod Laws
pub mod Helpers
