-- The text of the even-odd curve.
pub mod Curve
pub mod Examples
