-- Laws of standing records.
pub mod Adding
pub mod Stood
pub mod Repeats
pub mod Keys
pub mod Least
pub mod Left
pub mod Judging
pub mod Walking
pub mod Verdicts
pub mod Orders
pub mod Laws
pub mod Tables
pub mod Cases
