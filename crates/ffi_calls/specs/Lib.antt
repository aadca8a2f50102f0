-- Demand 3 by numbers: works and paintings, then listings and decidings too, and that such calls exist; batches.
pub mod Calls
pub mod ListingCalls
pub mod Example
pub mod Batches
