pub mod Verify
pub mod VerifyLaws
pub mod VerifyTheorems
