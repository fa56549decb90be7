pub mod Parts
pub mod Digits
pub mod Numbers
pub mod Fields
pub mod Placed
pub mod Lines
