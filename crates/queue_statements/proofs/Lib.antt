-- Laws of queues of carries.
pub mod Judging
pub mod Ranks
pub mod Queues
pub mod Columns
pub mod Inserting
pub mod Openings
pub mod Moving
pub mod Collecting
pub mod Placing
pub mod Keys
pub mod Tallying
pub mod Lights
pub mod Summing
pub mod Gathering
pub mod Opened
pub mod Examples
pub mod Opposite
