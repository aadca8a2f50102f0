-- Demand 3 by numbers: what numbers tell, the steps, the theorems, and that they are not empty.
pub mod Numbers
pub mod Steps
pub mod ListingCalls
pub mod Calls
pub mod Existing
pub mod Batches
