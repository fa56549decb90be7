pub mod Asked
pub mod Arrays
pub mod Rooms
pub mod Bricks
pub mod Covers
pub mod Answers
pub mod Promise
