pub mod Columns
pub mod Finds
pub mod Denses
