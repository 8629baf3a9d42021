pub mod Elements
pub mod Owned
pub mod Chains
pub mod Frobenius
pub mod Unique
pub mod Conversions
pub mod Agree
