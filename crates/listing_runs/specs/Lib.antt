-- Runs of listings, decidings, works and paintings. Read in this order. The file whose name begins with Inner says what the caller holds between the
-- calls; nobody has to believe it.
pub mod Due
pub mod Run
pub mod Claim
pub mod Example
pub mod Marked
pub mod InnerHolding
