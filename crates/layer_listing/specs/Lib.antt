-- What a survey of the list tells. InnerWriting says what functions below the list give; nobody has to believe it.
pub mod Survey
pub mod InnerWriting
