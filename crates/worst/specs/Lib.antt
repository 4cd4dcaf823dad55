pub mod Worst
pub mod Facts
