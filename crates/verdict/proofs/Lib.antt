pub mod Found
pub mod States
pub mod Descriptions
pub mod Filling
pub mod Tests
pub mod Forms
