pub mod Live
pub mod Facts
