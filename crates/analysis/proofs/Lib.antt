pub mod Linked
pub mod Verdicts
