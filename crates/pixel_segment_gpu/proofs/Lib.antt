-- Laws of packed words and of rows in tiles four pixels high: uses of those over the tile height.
pub mod Widths
pub mod Edges
