-- Laws of numbers as text.
pub mod Digits
pub mod Steps
pub mod Laws
pub mod Reading
pub mod Signs
pub mod Print
pub mod SignedPrint
