-- Laws of records that are made of columns.
pub mod Making
