pub mod Writing
pub mod Packets
pub mod Back
pub mod Examples
