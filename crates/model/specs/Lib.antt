pub mod Lists
pub mod Rules
pub mod Table
pub mod Ipv4
pub mod Bench
