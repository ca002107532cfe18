pub mod AsIfFresh
pub mod Carrying
pub mod FirstPackets
pub mod Lengthen
pub mod LengthenLaws
pub mod Received
pub mod Twice
