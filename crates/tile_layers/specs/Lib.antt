-- One tile: its list of layers. What the contracts say.
pub mod Groups
pub mod Listing
pub mod InnerWalk
