pub mod ClearLaws
pub mod GapLaws
pub mod MarkLaws
