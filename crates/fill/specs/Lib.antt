pub mod Columns
pub mod Fill
pub mod FillCases
pub mod Filled
pub mod Good
pub mod Held
pub mod PutLaws
pub mod Rows
