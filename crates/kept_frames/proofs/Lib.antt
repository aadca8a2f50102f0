-- Laws of a tile from frame to frame.
pub mod Within
pub mod Latest
pub mod Strokes
pub mod Afresh
pub mod Changed
pub mod ByPicture
pub mod Floor
pub mod Bits
pub mod Kept
pub mod Plain
pub mod None
pub mod AtNone
pub mod Twice
pub mod Tags
pub mod Settled
pub mod Refuted
