pub mod Interval
pub mod Pair
pub mod Region
