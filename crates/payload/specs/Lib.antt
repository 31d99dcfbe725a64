pub mod Datatypes
pub mod Colors
pub mod Formats
pub mod Payloads
pub mod Examples
pub mod Parts
