-- What the last frame left of a tile: what the contracts say.
pub mod Tile
pub mod Kept
