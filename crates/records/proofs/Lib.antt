pub mod Lines
pub mod Start
pub mod Unique
