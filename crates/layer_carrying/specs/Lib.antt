-- The carries that a tile hands on.
pub mod Carrying
