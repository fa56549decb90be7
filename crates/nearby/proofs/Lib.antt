pub mod Nothing
pub mod Remembered
pub mod Covers
pub mod Threats
pub mod Gathers
