pub mod Value
pub mod Zero
pub mod Compact
pub mod Rounds
pub mod Rev
pub mod Swap
pub mod Unique
