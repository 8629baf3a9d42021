pub mod Folds
pub mod Words
pub mod Unique
