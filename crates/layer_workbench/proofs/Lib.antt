-- Laws of a tile's work.
pub mod Entries
pub mod Decided
pub mod Cases
