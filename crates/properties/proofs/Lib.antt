pub mod Insertion
pub mod Good
pub mod Rules
pub mod Lists
pub mod Order
pub mod Valid
pub mod Plain
pub mod Theorems
