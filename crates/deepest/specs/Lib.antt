pub mod Deepest
pub mod Search
