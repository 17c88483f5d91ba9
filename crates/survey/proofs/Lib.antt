pub mod Zeros
pub mod Laying
pub mod Surveying
pub mod Reading
pub mod Clearing
pub mod Settling
pub mod Asking
