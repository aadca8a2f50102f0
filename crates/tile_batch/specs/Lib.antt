-- A batch of tiles: what the inner functions ask and give.
pub mod InnerTurns
