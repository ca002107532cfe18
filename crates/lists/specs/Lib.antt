pub mod Ascending
pub mod Buffers
pub mod Comparing
pub mod ListLaws
pub mod Lists
pub mod Numbers
pub mod Tests
pub mod WroteLaws
