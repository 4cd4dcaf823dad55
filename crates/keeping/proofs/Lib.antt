pub mod Spelled
pub mod Whole
