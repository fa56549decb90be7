pub mod Worked
pub mod Turns
pub mod Steps
pub mod Answers
pub mod Demand
