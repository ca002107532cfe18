pub mod Copying
pub mod Narrowing
pub mod Searching
