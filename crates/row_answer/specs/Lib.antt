-- What the row program prints for a job text.
pub mod Answer
