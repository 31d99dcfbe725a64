pub mod Lanes
pub mod Promises
pub mod Calls
