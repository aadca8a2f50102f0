-- A whole row driven: what the inner functions ask and give.
pub mod InnerSteps
