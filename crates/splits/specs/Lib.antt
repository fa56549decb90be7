pub mod Splits
pub mod Picks
