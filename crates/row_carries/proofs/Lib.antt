-- Laws of the carries of a row, that the theorem of the row cites.
pub mod Merged
pub mod Handed
pub mod Parts
pub mod Carried
pub mod Planes
pub mod Covered
pub mod Opposite
