-- Laws of job texts.
pub mod Forms
pub mod Answers
pub mod Counting
pub mod Stored
pub mod Verdicts
pub mod Laws
pub mod Examples
