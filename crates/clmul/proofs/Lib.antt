pub mod Cells
pub mod Classes
pub mod Bmul
pub mod Halves
pub mod Unique
