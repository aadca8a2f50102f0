-- Laws that the proofs of the cases cite.
pub mod Accepted
pub mod Table
pub mod Tile
pub mod RecordCalls
