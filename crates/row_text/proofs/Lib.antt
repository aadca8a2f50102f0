-- Laws of the printed answer.
pub mod Telling
pub mod Fronts
