pub mod First
pub mod Places
pub mod Turning
pub mod Ending
pub mod Third
pub mod Structure
pub mod Solution
pub mod Second
