-- Calls with a queue lent as carry records, as steps of a run.
pub mod Steps
