pub mod Memories
pub mod Eeproms
pub mod Edits
