-- What is read of an input, by the room that there is.
pub mod Held
