pub mod AgreeLaws
pub mod Deciding
pub mod Full
pub mod FullLaws
