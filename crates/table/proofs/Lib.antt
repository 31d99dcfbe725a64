pub mod Openings
pub mod Outcomes
pub mod Obeying
