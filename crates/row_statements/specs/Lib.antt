-- A row of tiles: what its operations promise, and the claim about any list of them. Read in this order. The files whose names begin with Inner
-- say what functions below the public operations ask and give; nobody has to believe them.
pub mod Lent
pub mod State
pub mod Conditions
pub mod Opening
pub mod TileWork
pub mod Painting
pub mod Due
pub mod Run
pub mod Claim
pub mod Example
pub mod InnerWork
pub mod InnerPaint
pub mod InnerHolding
pub mod Edges
pub mod PaintEdges
