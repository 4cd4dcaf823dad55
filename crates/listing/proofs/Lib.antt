pub mod Records
pub mod Text
