pub mod Places
pub mod Shapes
