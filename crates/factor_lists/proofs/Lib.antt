pub mod Named
pub mod Parts
pub mod Chains
