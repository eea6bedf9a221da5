pub mod Words
pub mod Documents
pub mod Scanned
pub mod steps
pub mod blocks
pub mod spans
pub mod inlines
pub mod laws
