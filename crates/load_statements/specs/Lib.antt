-- A load: what it is made from, its job, the text that answers the line that asks for it, and what holds of it.
pub mod Draw
pub mod Load
pub mod Input
pub mod Answer
pub mod Length
pub mod Opened
pub mod Worked
pub mod Made
