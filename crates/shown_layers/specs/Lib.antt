-- The shown layers of a tile: what the contracts say.
pub mod Counting
pub mod InnerTally
