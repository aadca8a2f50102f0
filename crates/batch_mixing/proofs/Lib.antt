-- Laws of the walk over the layers of a solid tile.
pub mod Mixed
