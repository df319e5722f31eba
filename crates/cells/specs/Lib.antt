-- From meters to cells: where a meter's energy comes from, its class, and the cells of the units.
pub mod Energy
pub mod Cells
pub mod Helpers
