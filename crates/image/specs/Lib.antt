pub mod Walk
pub mod Image
