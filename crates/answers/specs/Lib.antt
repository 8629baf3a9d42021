pub mod Answer
pub mod Text
pub mod Quotient
pub mod Lent
