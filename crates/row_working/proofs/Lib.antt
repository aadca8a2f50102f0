-- The proofs of a row's operations. The laws are of row_statements, but for those of a tile's part.
pub mod PartLaws
