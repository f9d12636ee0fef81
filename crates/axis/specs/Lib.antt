pub mod Models
pub mod Settings
pub mod Motion
