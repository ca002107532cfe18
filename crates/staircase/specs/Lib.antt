pub mod Ascending
pub mod Parameters
pub mod Staircase
pub mod StaircaseLaws
pub mod Staired
pub mod Stairs
