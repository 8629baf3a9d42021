pub mod Line
pub mod Packing
pub mod Refusals
pub mod Unique
