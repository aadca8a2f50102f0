-- What the contracts of the operations say is of row_statements; here is what the work on a tile's part asks and gives.
pub mod InnerPart
