pub mod Turns
pub mod Going
pub mod RowOnes
pub mod Beginning
pub mod Whole
