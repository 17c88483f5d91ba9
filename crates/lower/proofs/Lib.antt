pub mod Spots
pub mod Passes
pub mod Total
pub mod Bridge
