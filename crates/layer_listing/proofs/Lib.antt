-- Laws of the loops over the list.
pub mod Surveying
pub mod Writing
pub mod Marking
