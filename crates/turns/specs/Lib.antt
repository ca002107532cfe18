pub mod Spent
pub mod TurnLaws
