-- Which layer record stands (W-212): records that are sent again, and the layer table that they leave.
pub mod Sent
pub mod Standing
pub mod Verdict
pub mod Laws
pub mod InnerWalk
