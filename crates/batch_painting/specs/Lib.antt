-- The shown layers of a tile in a batch: what the inner functions ask and give.
pub mod InnerShown
