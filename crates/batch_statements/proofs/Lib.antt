-- Laws of batches.
pub mod ShownFew
pub mod ListedFew
pub mod Refused
