pub mod Turns
pub mod States
pub mod Whole
