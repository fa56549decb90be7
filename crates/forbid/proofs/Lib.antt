pub mod Intervals
pub mod Solids
pub mod Regions
pub mod Rows
pub mod Chains
pub mod Finds
