-- The packed pixel segment: what its contracts say.
pub mod Field
pub mod Pack
pub mod Opposite
pub mod Order
pub mod Layout
pub mod Edges
