pub mod Buffers
pub mod Others
pub mod Gathering
