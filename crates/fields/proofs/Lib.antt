pub mod Field8
pub mod Field64
pub mod Field128
pub mod Fields
