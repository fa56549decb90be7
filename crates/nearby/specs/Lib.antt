pub mod Places
pub mod Known
pub mod Listing
pub mod Adding
pub mod Due
