-- The worked cases as one table, what they are about, and how the program reads an answer.
pub mod Numbers
pub mod Inputs
pub mod Cases
pub mod Edges
pub mod Answers
pub mod Seen
pub mod RecordCalls
