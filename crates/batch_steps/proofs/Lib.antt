-- Laws of the steps of a batch.
pub mod Rooms
