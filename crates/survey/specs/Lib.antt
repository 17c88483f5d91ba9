pub mod Laid
pub mod Settles
