pub mod Levels
pub mod Words
pub mod Sums
pub mod Writing
pub mod Chains
