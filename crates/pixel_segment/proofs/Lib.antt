-- Laws of packed words and their order.
pub mod Widths
pub mod Ranges
pub mod ReadBack
pub mod Joining
pub mod Covers
pub mod Opposite
pub mod Edges
pub mod Heights
pub mod Lexical
