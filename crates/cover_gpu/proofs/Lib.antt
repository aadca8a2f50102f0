-- Laws of painting in tiles four pixels high.
pub mod Paintings
