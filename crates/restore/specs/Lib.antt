pub mod Mending
pub mod MendsLaws
pub mod SavedLaws
