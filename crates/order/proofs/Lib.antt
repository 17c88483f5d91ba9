pub mod Naming
pub mod Taking
pub mod Fault
pub mod Firsts
pub mod Shaped
