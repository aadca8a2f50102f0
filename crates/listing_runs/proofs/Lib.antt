-- The theorem over any list of listings, decidings, works and paintings, and its steps.
pub mod Lists
pub mod Steps
pub mod Run
pub mod Runs
pub mod Example
pub mod Marked
