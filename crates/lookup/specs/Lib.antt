pub mod Meaning
pub mod Contract
