pub mod PartLaws
pub mod StepLaws
