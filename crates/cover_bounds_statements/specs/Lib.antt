-- Covers known within bounds: what the operation promises.
pub mod Interval
pub mod Chosen
pub mod Within
pub mod Verdicts
pub mod Sound
pub mod Part
pub mod InnerEnds
pub mod InnerPlanes
