pub mod Calendar
pub mod Datetime
pub mod Duration
pub mod Parts
