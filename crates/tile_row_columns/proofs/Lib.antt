-- Laws of columns that were read of carry records.
pub mod Lending
pub mod SameQueue
pub mod SameAnswers
