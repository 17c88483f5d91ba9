pub mod Wrote
pub mod Laying
