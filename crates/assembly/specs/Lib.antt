pub mod Ready
pub mod Update
pub mod Assembled
