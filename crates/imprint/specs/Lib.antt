pub mod Fits
pub mod Contract
pub mod Parts
