pub mod Values
pub mod Fields
pub mod Known
pub mod Names
pub mod Parts
