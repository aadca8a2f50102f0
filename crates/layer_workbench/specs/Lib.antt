-- The work on one tile: what its contract says.
pub mod Work
