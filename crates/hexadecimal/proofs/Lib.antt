pub mod Digits
pub mod RoundTrip
pub mod Unique
