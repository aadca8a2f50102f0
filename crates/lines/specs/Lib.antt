-- Blocks of lines of whole numbers as text.
pub mod Bytes
pub mod Text
pub mod Parse
pub mod Read
