pub mod Comparisons
pub mod Rows
pub mod Exchange
