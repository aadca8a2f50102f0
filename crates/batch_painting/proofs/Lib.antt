-- Laws of the shown layers of a tile in a batch.
pub mod Stores
pub mod Steps
pub mod Walking
