-- Listing and deciding: what they promise, and that a work is their succession. Read in this order. The files whose names begin with Inner say what
-- functions below the operations ask and give, and what proofs hold of a lent list; nobody has to believe them.
pub mod Listing
pub mod Deciding
pub mod Succession
pub mod InnerLists
pub mod InnerListing
pub mod InnerDeciding
pub mod Edges
