pub mod Marks
pub mod Lines
pub mod Bricks
