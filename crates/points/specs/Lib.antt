pub mod Area
pub mod Ends
