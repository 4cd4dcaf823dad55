pub mod Blocks
pub mod Sums
pub mod Written
pub mod Examples
