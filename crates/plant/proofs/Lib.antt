pub mod Planting
pub mod Left
