-- A tile from frame to frame.
pub mod Picture
pub mod Told
pub mod Alike
pub mod Stays
pub mod Right
pub mod Display
pub mod Example
pub mod Wrong
