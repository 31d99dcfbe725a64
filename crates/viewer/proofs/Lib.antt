pub mod Passing
pub mod Judged
pub mod Read
pub mod LaneNumbers
pub mod Zero
pub mod Theorems
