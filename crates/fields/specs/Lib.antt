pub mod Moduli
pub mod Fields
