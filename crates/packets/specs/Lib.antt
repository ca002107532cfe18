pub mod Filling
pub mod Given
pub mod GivenLaws
pub mod PlaceLaws
pub mod SetLaws
