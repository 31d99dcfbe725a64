pub mod Writes
pub mod Fields
pub mod Records
pub mod Head
pub mod Whole
pub mod Valid
pub mod Theorems
