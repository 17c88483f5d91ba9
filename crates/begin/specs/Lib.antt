pub mod Begun
pub mod Ordered
