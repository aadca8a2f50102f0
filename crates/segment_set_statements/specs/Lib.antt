-- Segments that come and go: what the operations promise.
pub mod Effect
pub mod Set
pub mod Kept
pub mod Edits
pub mod Alike
pub mod InnerSpread
pub mod Edges
