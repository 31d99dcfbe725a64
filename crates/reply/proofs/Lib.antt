pub mod Out
pub mod Shown
pub mod Signed
pub mod Declared
pub mod Said
pub mod Theorems
