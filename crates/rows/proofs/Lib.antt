pub mod Sets
pub mod Insert
pub mod Room
pub mod Coming
