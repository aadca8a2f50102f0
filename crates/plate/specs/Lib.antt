-- Rows of a plate: what its contracts say.
pub mod Rows
pub mod Crop
pub mod Print
pub mod Sorted
