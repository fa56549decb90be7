pub mod Filled
pub mod Printed
pub mod Whole
