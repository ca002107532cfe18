pub mod Bytes
pub mod Decoding
pub mod HeadWritten
