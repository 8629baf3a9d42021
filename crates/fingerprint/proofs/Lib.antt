pub mod Turn
pub mod Polynomial
pub mod Refusals
pub mod Unique
