pub mod Bytes
pub mod Layout
pub mod State
pub mod Sound
pub mod Parts
