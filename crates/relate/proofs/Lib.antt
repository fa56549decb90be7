pub mod Table
pub mod Extents
pub mod Promise
