pub mod Sums
pub mod Areas
pub mod Cut
pub mod Runs
pub mod Fills
pub mod Takes
