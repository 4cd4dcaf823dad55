pub mod Search
pub mod Links
pub mod Facts
pub mod Examples
