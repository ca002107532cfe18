pub mod CheckValue
pub mod DrawingLaws
pub mod Draws
pub mod Generator
