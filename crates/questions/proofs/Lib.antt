pub mod Asking
pub mod Answers
pub mod Rooms
pub mod Shows
pub mod Effective
