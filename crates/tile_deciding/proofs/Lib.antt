-- The proofs of deciding. The laws are of listing_statements, but for the walk through the table.
mod Meeting
