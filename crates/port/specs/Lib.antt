pub mod Steps
pub mod Pulses
pub mod Phases
