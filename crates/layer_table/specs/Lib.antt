-- The lent layer table: its records, its order, and the look-up by id.
pub mod Record
pub mod Table
pub mod Lookup
pub mod Edges
