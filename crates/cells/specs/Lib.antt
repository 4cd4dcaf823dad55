pub mod Text
pub mod Planted
pub mod States
pub mod Examples
