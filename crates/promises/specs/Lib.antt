pub mod First
pub mod Third
pub mod Second
