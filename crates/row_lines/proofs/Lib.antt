-- Laws of a driven row.
pub mod Accepted
pub mod Calls
pub mod Existing
