-- Laws of the rows of a plate.
pub mod Neighbours
pub mod Finding
pub mod Sorted
pub mod Together
