-- The claims of specs/, each cited from the crate that proves it.
pub mod Words
pub mod Opposite
pub mod Rows
pub mod Layers
pub mod Weights
pub mod Planes
pub mod WholeRow
pub mod Passes
pub mod Repainting
pub mod Runs
pub mod Texts
pub mod Loads
pub mod Sets
pub mod Bounds
pub mod Revisions
pub mod RevisionEdges
pub mod FewListed
