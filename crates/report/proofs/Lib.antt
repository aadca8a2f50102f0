-- Laws of printed lines.
pub mod Copying
pub mod Lines
pub mod Putting
pub mod Examples
