-- What a program has read of its input.
pub mod Front
