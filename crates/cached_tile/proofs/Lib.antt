-- Laws and cases of cached tiles.
pub mod Counts
pub mod Cases
