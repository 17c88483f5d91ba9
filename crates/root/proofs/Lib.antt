pub mod Pivots
pub mod Tested
