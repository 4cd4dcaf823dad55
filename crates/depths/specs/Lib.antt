pub mod Depths
pub mod Facts
pub mod Examples
