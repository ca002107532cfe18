pub mod Kept
pub mod RunBytes
pub mod Start
pub mod StartLaws
