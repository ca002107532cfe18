pub mod Dot
pub mod DotLaws
pub mod Scan
