pub mod Node
pub mod Lined
pub mod Climbs
pub mod Begun
pub mod Twelve
pub mod Areas
