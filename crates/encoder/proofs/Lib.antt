pub mod AnySize
pub mod CallLaws
pub mod EncodingLaws
