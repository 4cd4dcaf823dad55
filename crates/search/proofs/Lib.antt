pub mod First
pub mod Links
pub mod Topped
pub mod Facts
pub mod Written
