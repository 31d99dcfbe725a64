pub mod Device
pub mod Whole
pub mod Bounds
pub mod Declares
pub mod Plain
pub mod Theorems
