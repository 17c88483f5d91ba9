pub mod Node
pub mod Line
