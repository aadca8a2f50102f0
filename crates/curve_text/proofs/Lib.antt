-- Laws of the even-odd curve.
pub mod Weights
pub mod Examples
pub mod CurvePrinting
