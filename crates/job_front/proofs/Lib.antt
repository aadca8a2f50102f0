-- The first 65,537 bytes of an input decide the job that it is.
pub mod Fronts
