pub mod Named
pub mod Store
pub mod Inner
