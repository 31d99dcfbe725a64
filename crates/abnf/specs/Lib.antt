pub mod Abnf
pub mod Accepts
pub mod Place
