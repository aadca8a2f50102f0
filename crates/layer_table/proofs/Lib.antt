-- Laws of layer records and their table.
pub mod Places
pub mod Listed
pub mod Halving
pub mod Judging
pub mod Looking
pub mod Ranges
pub mod Cases
