-- Laws of styles, of the numbers that stand for them, and of ascending ids.
pub mod Coded
pub mod Ascents
pub mod Cases
