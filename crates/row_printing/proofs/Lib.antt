-- Laws of printed lines.
pub mod Placing
pub mod Lining
