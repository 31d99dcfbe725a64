pub mod Judge
pub mod Lists
pub mod Flat
pub mod Seen
pub mod Read
pub mod Theorems
