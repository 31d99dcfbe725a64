pub mod Texts
pub mod Questions
pub mod Parts
