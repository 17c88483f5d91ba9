pub mod Answered
pub mod Viewed
