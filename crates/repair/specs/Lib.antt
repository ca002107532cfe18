pub mod Parts
pub mod Repair
pub mod RepairLaws
