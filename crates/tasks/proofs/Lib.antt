pub mod Weighing
pub mod Raising
pub mod Climbing
pub mod Cutting
pub mod Formed
pub mod Splitting
