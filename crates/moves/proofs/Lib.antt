pub mod Copies
pub mod Default
