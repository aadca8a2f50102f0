-- Laws of the rules.
pub mod Ranges
