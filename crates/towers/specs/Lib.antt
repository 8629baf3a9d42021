pub mod Level
pub mod Mul
pub mod Basis
pub mod Theorem
