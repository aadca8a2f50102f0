-- Laws of two rows.
pub mod Words
pub mod Layers
pub mod Same
pub mod Apart
pub mod Unmoved
pub mod Example
pub mod Turned
pub mod Backwards
pub mod Both
pub mod Lowest
