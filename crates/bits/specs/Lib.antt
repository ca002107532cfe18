pub mod Row
pub mod RowLaws
pub mod Front
pub mod WordPlaces
