pub mod Finding
pub mod Passes
pub mod Laws
pub mod Run
pub mod Carry
