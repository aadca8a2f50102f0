-- One layer's row of tiles four pixels high: what its operations promise, and the claim about any works after an opening. Read in this order.
pub mod LayerState
pub mod OpenLayer
pub mod WorkLayer
pub mod WorkTiles
pub mod LayerDue
pub mod LayerRun
pub mod LayerExample
pub mod Apart
pub mod InnerCovers
pub mod InnerWorks
pub mod InnerTiles
