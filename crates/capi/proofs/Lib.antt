pub mod Demand
pub mod Request
pub mod Numbers
