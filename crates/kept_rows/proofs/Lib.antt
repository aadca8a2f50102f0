-- Laws of tiles that are kept along rows.
pub mod Present
pub mod Along
pub mod Since
pub mod Walk
pub mod Works
pub mod Read
pub mod Painted
pub mod Shown
pub mod History
pub mod Frames
pub mod Protocol
pub mod Once
pub mod Example
