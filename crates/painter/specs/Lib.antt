-- Painting one layer in one tile: what its contracts say.
pub mod Clip
pub mod Painting
pub mod InnerReady
pub mod InnerFreed
pub mod InnerOwn
