pub mod CopyLaws
pub mod Following
