pub mod Outcomes
pub mod Running
