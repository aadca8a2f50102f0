-- Laws of covers known within bounds.
pub mod Intervals
pub mod Ends
pub mod Cases
pub mod Choosing
pub mod Bounds
pub mod Loops
pub mod Calls
pub mod Verdicts
pub mod Promises
