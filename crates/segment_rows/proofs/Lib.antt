-- Laws of rows of segments.
pub mod Ascending
pub mod Halving
pub mod Rows
pub mod Sorted
pub mod Keys
pub mod Above
pub mod TileParts
pub mod TileLayers
pub mod Opposite
pub mod Cutting
