pub mod TableRead
