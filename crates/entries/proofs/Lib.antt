pub mod From
pub mod Places
pub mod Theorems
