pub mod Steps
pub mod Tree
