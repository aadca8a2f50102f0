-- Laws that the proofs of this crate and of those above it cite.
pub mod Wrapping
pub mod Lists
pub mod Effects
pub mod Spreading
pub mod Changes
pub mod Places
pub mod Sames
pub mod Steps
pub mod Begins
pub mod Keeping
pub mod Letting
pub mod Starting
pub mod Undoing
pub mod Each
pub mod Alikes
pub mod Cases
