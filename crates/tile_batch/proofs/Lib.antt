-- Laws of a batch of tiles.
pub mod Paintings
pub mod Noting
pub mod Turning
pub mod Going
pub mod Starting
