pub mod Product
pub mod Root
pub mod Chain
pub mod Dot
pub mod Refusals
pub mod Unique
