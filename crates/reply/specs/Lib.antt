pub mod Reply
pub mod Files
pub mod Judgements
pub mod Descriptions
pub mod Strings
pub mod Answers
pub mod Parts
