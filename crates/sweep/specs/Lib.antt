pub mod Point
pub mod Rotation
pub mod Moves
pub mod Theorem
