-- A whole row driven: what is due of it.
pub mod Shown
pub mod Lines
pub mod Driven
pub mod Calls
