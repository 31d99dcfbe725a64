pub mod Once
pub mod Rules
pub mod Strings
