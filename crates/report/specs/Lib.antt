-- The lines that the row program prints.
pub mod Text
pub mod Put
