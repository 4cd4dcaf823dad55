pub mod Named
pub mod Words
pub mod Bridge
pub mod Parts
pub mod Sound
pub mod Lent
pub mod Passed
