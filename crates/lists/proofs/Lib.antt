pub mod Listed
pub mod Applied
