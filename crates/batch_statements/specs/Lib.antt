-- A batch of tiles: what it promises, as the succession of the calls on each tile. Read in this order.
pub mod BatchLent
pub mod Batch
