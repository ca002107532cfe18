pub mod Telling
pub mod Why
