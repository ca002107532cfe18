pub mod BlockLaws
pub mod MapLaws
