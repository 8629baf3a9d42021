pub mod Unique
pub mod Index
