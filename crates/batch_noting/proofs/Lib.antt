-- Laws of what a batch notes.
pub mod Stores
