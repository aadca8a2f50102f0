-- Laws of printing a load.
pub mod Printing
