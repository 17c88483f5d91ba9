pub mod Assembles
pub mod Scatters
pub mod Earlies
pub mod Gather
pub mod Takes
pub mod Spots
