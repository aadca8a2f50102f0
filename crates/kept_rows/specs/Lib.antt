-- Tiles that are kept along rows.
pub mod Along
pub mod Since
pub mod Walk
pub mod Shown
pub mod Painted
pub mod History
pub mod Frames
pub mod Protocol
pub mod Example
