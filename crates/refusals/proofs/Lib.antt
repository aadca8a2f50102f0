-- Laws of judges.
pub mod Judging
pub mod Naming
