pub mod Frame
pub mod Changes
pub mod Written
pub mod Theorems
pub mod Halves
