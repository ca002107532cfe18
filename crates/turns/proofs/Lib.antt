pub mod Ordering
pub mod Spending
pub mod Turning
