pub mod Walk
pub mod Shown
