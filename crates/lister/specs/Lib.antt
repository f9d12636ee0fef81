pub mod Walks
pub mod Targets
pub mod Writes
