pub mod Linked
pub mod LinkedLaws
