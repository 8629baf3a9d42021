pub mod Folds
pub mod Laws
pub mod Refusals
pub mod Quotient
pub mod Lent
pub mod Scaling
pub mod Unique
