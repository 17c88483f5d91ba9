pub mod Buckets
pub mod Touch
