-- Whole numbers as text.
pub mod Decimal
pub mod Parse
pub mod Read
pub mod Print
