-- The job text of the row program: what is a job, and which text is whose.
pub mod Text
pub mod Job
pub mod Parse
pub mod Numbers
pub mod Read
