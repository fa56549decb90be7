pub mod Settles
pub mod Searches
pub mod Lowers
pub mod Halves
pub mod Answers
pub mod Promise
