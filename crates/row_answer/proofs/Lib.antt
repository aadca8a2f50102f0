-- Laws of the answer to a job text.
pub mod Reading
