pub mod Board
pub mod BoardLaws
pub mod Tiles
