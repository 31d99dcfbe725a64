pub mod Words
pub mod Hex
pub mod Number
pub mod Flag
pub mod Out
pub mod Streams
