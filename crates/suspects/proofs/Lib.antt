pub mod BlameLaws
pub mod EachByte
