pub mod Texts
pub mod Described
pub mod Lanes
pub mod First
pub mod Words
pub mod Theorems
