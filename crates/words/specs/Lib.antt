pub mod Words
pub mod Limbs
