pub mod Names
pub mod Description
pub mod Meaning
pub mod Declares
pub mod Parts
