pub mod Integer
pub mod Below
pub mod Bits
pub mod Digits
pub mod Words
