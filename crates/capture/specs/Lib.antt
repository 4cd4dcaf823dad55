pub mod Pcap
pub mod Cases
pub mod Accepts
pub mod Steps
pub mod Examples
