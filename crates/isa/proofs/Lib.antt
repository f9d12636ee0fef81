pub mod RoundTrip
pub mod Areas
pub mod Rows
