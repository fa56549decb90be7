pub mod Decimal
pub mod Sizes
pub mod Rows
