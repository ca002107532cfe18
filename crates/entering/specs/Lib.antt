pub mod EnteredLaws
pub mod Entering
pub mod EntryLaws
