-- Laws of the keep rule for the tiles of a row.
pub mod Tiles
