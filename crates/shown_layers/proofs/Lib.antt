-- Laws of the walk over a tile's shown layers.
pub mod Rest
pub mod Tallying
pub mod Painting
