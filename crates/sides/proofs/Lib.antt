pub mod Answered
pub mod Each
pub mod Parts
