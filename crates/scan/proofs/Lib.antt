pub mod Least
pub mod Through
