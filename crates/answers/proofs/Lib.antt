pub mod Answer
pub mod Text
pub mod Refusals
pub mod Quotient
pub mod Lent
pub mod Written
pub mod Unique
