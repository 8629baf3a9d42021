pub mod Maps
pub mod Quadword
pub mod Lists
pub mod Kinds
pub mod Theorem
