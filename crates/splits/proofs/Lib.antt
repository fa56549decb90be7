pub mod Values
pub mod Writes
pub mod Picks
pub mod Parts
