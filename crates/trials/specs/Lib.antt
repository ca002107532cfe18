pub mod Cleared
pub mod ClearedLaws
