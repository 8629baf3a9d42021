pub mod Poly
pub mod Bits
pub mod Linear
pub mod Residue
pub mod Ring
pub mod Field
