pub mod Sums
pub mod Shaped
