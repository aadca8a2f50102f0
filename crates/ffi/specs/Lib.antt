-- Answers as numbers: what the exported functions' contracts say.
pub mod Covers
pub mod Layers
pub mod Plates
pub mod Work
pub mod Listing
pub mod Deciding
pub mod Painting
pub mod Revisions
pub mod Bounds
pub mod Version
