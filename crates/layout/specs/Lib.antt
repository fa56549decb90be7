pub mod First
pub mod Search
pub mod Lowering
