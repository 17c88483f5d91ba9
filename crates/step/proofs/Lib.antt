pub mod Ends
pub mod Link
