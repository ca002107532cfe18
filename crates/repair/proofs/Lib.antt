pub mod Answering
pub mod OneWrong
pub mod RepairTheorems
