pub mod Laying
pub mod Layout
pub mod Scan
