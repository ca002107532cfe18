pub mod Numbers
pub mod Steps
pub mod Counting
pub mod Cursor
