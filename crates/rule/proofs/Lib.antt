pub mod AllChecksZero
pub mod Bound
pub mod EncodedZero
pub mod Info
pub mod OneBlock
pub mod WellFormed
pub mod WithinLimits
