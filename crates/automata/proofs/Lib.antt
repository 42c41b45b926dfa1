pub mod Following
pub mod Sameness
