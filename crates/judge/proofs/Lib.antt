pub mod Saying
pub mod Asking
pub mod Shapes
