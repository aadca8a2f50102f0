-- Laws of the table.
pub mod Table
