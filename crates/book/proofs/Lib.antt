pub mod Agree
pub mod Answers
pub mod Theorems
