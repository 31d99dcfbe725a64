pub mod Cutting
pub mod Reading
pub mod Words
pub mod Payloads
pub mod Theorems
