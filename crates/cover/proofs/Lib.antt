-- The laws that the proofs of the functions cite. Others are of cover_statements.
pub mod RowSums
