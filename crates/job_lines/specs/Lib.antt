-- The rules on the lines of a job text.
pub mod Rules
