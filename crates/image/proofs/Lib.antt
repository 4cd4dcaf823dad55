pub mod Steps
pub mod Seeks
pub mod Tree
pub mod Table
pub mod Example
