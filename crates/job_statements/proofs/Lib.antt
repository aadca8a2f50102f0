-- Laws of what reading a job leaves.
pub mod Alphas
pub mod Packing
pub mod Filling
pub mod Strides
pub mod Tables
pub mod Rows
pub mod Outcomes
pub mod Records
pub mod Room
pub mod Examples
