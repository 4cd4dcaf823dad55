pub mod Edits
pub mod Inner
