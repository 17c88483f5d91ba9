pub mod Floats
pub mod Pad
pub mod Forms
pub mod Taken
pub mod Going
pub mod Limit
pub mod Wholes
