pub mod Makes
pub mod Parts
