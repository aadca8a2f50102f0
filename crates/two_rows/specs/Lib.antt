-- Two rows worked beside each other.
pub mod Apart
pub mod Unmoved
pub mod Example
pub mod SameCalls
pub mod Backwards
pub mod Lowest
