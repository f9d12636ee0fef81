pub mod Heard
pub mod Fits
