pub mod Settled
pub mod Theorems
