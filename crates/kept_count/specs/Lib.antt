-- Whether a tile may keep its count.
pub mod Keeping
pub mod InnerKeeping
