pub mod Names
pub mod Nodes
pub mod Listed
pub mod Parts
