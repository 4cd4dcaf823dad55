pub mod Levels
pub mod Chain
