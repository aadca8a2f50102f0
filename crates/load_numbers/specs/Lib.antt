-- What the readers of the line that asks for a load promise.
pub mod Read
