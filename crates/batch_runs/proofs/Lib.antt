-- Laws of a batch in a run.
pub mod BatchTiles
pub mod BatchRun
