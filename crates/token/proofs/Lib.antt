pub mod Cuts
pub mod Fronts
pub mod Names
pub mod Steps
