-- Laws of loops over lines.
pub mod Judging
