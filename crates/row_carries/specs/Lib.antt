-- The carries of a row that is worked from its opening on.
pub mod Carries
pub mod Listed
pub mod Covering
