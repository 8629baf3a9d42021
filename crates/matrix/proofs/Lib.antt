pub mod Apply
pub mod Laws
pub mod Unique
