pub mod Eliminating
pub mod EliminatingLaws
