pub mod Lead
pub mod Accepts
pub mod Steps
pub mod Repeats
pub mod Places
pub mod Theorems
