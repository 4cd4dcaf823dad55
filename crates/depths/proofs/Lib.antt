pub mod Weighed
pub mod Facts
pub mod Laws
