-- Laws of a driven row.
pub mod Listed
pub mod ShownIds
pub mod LineLaws
pub mod Cuts
pub mod Turning
pub mod Driving
pub mod Opening
