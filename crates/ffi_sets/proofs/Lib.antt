-- Laws that proofs above cite.
pub mod Told
pub mod Calls
pub mod Cases
