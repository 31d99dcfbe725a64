pub mod Ranges
pub mod Promises
pub mod Answers
pub mod Parts
