pub mod Dual
pub mod Masks
pub mod Scanning
