-- Answers, states and cached tiles as numbers: what the contracts say.
pub mod Numbers
pub mod Cached
pub mod Counts
pub mod Rows
