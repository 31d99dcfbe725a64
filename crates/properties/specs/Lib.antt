pub mod Names
pub mod Property
pub mod Entries
pub mod Judged
pub mod Valid
pub mod Parts
