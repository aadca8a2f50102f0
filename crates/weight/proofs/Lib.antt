-- Laws of rows of weights.
pub mod WeightRows
