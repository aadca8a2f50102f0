-- Laws of handing on.
pub mod Handing
