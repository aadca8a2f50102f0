-- The laws of the loop that reads lent records.
pub mod Reading
