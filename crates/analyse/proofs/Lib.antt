pub mod Boundless
pub mod Outcomes
