pub mod Chains
pub mod Part
