-- How much of an input decides the job that it is.
pub mod Front
