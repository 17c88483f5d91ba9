pub mod Floats
pub mod Rising
