pub mod Print
pub mod Refusals
