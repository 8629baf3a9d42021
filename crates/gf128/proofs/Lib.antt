pub mod Blocks
pub mod Karatsuba
pub mod Sums
pub mod Square
pub mod Refusals
pub mod Unique
