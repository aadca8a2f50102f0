-- Laws of loads.
pub mod Asking
pub mod Slots
pub mod Fields
pub mod Rules
pub mod Forming
pub mod Accepting
pub mod Ascents
pub mod Openings
pub mod Members
pub mod Works
pub mod Lengths
pub mod Examples
pub mod Making
