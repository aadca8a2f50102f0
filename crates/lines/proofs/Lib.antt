-- Laws of lines of numbers as text.
pub mod Steps
pub mod Laws
pub mod PrefixReading
pub mod Starting
pub mod LinePrinting
pub mod LinesPrinting
pub mod LineReading
pub mod LinesReading
pub mod Blocks
pub mod Stored
pub mod Examples
