pub mod Rfc8259
pub mod Listing
pub mod Place
pub mod PlaceExamples
