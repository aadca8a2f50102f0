-- What is noted of a tile: what the contracts say.
pub mod InnerNoting
