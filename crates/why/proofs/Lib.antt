pub mod Answering
pub mod Fitting
pub mod Looking
pub mod Telling
pub mod WhyLaws
