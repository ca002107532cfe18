pub mod Answering
pub mod Cursors
pub mod Lists
