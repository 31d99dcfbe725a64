pub mod Words
pub mod Form
pub mod Topics
pub mod Flags
pub mod Meaning
pub mod Parts
pub mod Table
pub mod Writing
