pub mod Tracing
pub mod TracingLaws
