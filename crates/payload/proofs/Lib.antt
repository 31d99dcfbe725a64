pub mod Examples
pub mod Judging
pub mod Parting
pub mod Formats
pub mod Theorems
