pub mod Kinds
pub mod Spots
