pub mod Rules
pub mod Runs
pub mod Walk
pub mod Fours
pub mod Order
