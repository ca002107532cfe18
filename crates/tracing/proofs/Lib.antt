pub mod Feeding
pub mod Loading
pub mod Taking
pub mod Walking
