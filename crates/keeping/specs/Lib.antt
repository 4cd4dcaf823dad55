pub mod Keep
pub mod Whole
