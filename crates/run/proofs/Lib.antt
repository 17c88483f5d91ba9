pub mod Fetching
pub mod Runs
