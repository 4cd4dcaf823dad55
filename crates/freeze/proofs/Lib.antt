pub mod Front
pub mod Image
