pub mod Answering
pub mod LengthenTheorems
pub mod Looking
