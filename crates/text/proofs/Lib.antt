pub mod Long
pub mod Readings
