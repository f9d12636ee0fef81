pub mod Contents
pub mod Decimals
pub mod Lengths
mod TwoDigits
