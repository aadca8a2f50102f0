-- The queue of carries: what its contracts say.
pub mod Queue
pub mod Rank
pub mod Opening
pub mod InnerGather
pub mod InnerInsert
pub mod InnerSums
pub mod Opposite
pub mod Edges
