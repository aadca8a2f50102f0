-- Laws that the proofs of several crates cite.
pub mod Parts
pub mod Machine
pub mod Mod
pub mod Bools
pub mod Ranges
pub mod Orders
pub mod Sums
pub mod Keyed
pub mod Rows
pub mod Drops
pub mod Every
pub mod Filtered
pub mod Maps
pub mod Table
pub mod Prelude
