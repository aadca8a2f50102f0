-- Laws of calls with records.
pub mod Steps
