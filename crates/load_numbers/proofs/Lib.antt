-- Laws of reading the line, and of drawing a segment.
pub mod Reading
pub mod Drawing
