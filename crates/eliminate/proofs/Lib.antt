pub mod Parting
pub mod Taking
pub mod Turning
