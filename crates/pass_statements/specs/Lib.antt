-- The passes over a tile's list: what their contracts say.
pub mod Entry
pub mod Item
pub mod Unchanged
pub mod Clips
pub mod Covered
pub mod Decision
pub mod Decide
pub mod Shown
pub mod Rules
pub mod Opposite
