-- Laws of a row's operations, and the theorem over any list of them.
pub mod Openings
pub mod Works
pub mod Paintings
pub mod Holding
pub mod WorkSteps
pub mod PaintSteps
pub mod Run
pub mod Runs
pub mod Example
pub mod RowCases
pub mod PaintCases
