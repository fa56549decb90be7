pub mod Todo
pub mod Demand
