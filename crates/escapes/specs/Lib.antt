pub mod Escapes
pub mod Decode
pub mod Writes
pub mod Parts
pub mod Examples
