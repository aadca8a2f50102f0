-- What reading a job text leaves.
pub mod Table
pub mod Row
pub mod Entries
pub mod Read
