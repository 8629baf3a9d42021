pub mod Words
pub mod Limbs
pub mod Readers
pub mod Refusals
pub mod Unique
