pub mod Runs
pub mod Chains
pub mod Counting
pub mod Solids
pub mod Hulls
