-- Definitions that the contracts of several crates cite.
pub mod Integer
pub mod Sum
pub mod Lists
pub mod Answer
pub mod Prelude
