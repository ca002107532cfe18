pub mod ClearSteps
pub mod Fitting
pub mod FreePlaces
pub mod Sections
pub mod WholePlan
