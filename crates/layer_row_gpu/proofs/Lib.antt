-- Laws of one layer's row of tiles four pixels high.
pub mod Within
pub mod Parts
pub mod Verdicts
pub mod Planes
pub mod Dues
pub mod Ranges
pub mod Going
pub mod Runs
pub mod LayerExample
pub mod Alike
