-- Laws of the walk that paints a tile's layers.
pub mod Freeing
pub mod Walks
