-- What answering the line that asks for a load promises.
pub mod Print
