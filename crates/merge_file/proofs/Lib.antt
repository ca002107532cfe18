pub mod Reading
pub mod Refusing
