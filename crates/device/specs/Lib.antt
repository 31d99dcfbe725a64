pub mod Layout
pub mod Decode
pub mod Meaning
pub mod Parts
