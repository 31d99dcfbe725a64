pub mod Bytes
pub mod Strings
pub mod Number
pub mod Value
pub mod Members
pub mod Examples
pub mod Ends
pub mod Parts
