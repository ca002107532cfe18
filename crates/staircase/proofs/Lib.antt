pub mod Afterwards
pub mod Answering
pub mod RowsMade
pub mod StairRows
