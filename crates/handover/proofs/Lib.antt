pub mod Changes
pub mod Handing
pub mod Theorems
