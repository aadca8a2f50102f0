-- What is said of rows of segments.
pub mod Rows
pub mod Search
pub mod InnerHalving
