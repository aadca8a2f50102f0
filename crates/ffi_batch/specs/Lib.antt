-- A batch of tiles as numbers: what the contracts say.
pub mod Batches
