pub mod Made
pub mod Scans
pub mod Grouped
pub mod Turns
pub mod Spots
pub mod Scanning
pub mod Passes
